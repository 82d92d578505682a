pub mod Keys
pub mod RowPairs
pub mod Runs
pub mod Faults
pub mod MergedView
pub mod Progress
pub mod Promise
