pub mod Keyed
pub mod Promise
