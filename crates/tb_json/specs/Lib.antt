pub mod Written
pub mod Writable
pub mod Promise
pub mod Runs
