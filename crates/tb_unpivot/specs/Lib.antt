pub mod Asked
pub mod Blocks
pub mod Folds
pub mod Promise
