pub mod Given
pub mod Promise
