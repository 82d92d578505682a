pub mod Promise
pub mod Lists
pub mod Marks
pub mod Written
