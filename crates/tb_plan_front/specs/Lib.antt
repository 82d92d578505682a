pub mod Explained
pub mod Plans
pub mod Promise
