pub mod Label
pub mod Promise
