pub mod Given
pub mod Halves
pub mod Rows
pub mod Standing
