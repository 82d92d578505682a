pub mod Deltas
pub mod Faults
pub mod Groups
pub mod Joins
pub mod Options
pub mod Plans
pub mod Shapes
pub mod Splits
