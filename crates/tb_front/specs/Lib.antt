pub mod Columns
pub mod Promise
pub mod Tables
pub mod Texts
