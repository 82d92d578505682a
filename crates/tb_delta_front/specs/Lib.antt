pub mod Changes
pub mod Deltas
pub mod Keeping
pub mod Promise
