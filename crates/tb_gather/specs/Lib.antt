pub mod Ids
pub mod Gathered
pub mod Kept
