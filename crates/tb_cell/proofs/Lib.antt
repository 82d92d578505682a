pub mod Blocks
pub mod Fitting
pub mod Flags
pub mod Follow
pub mod Nulls
pub mod Parts
pub mod Windows
