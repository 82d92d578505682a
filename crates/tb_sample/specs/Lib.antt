pub mod Sample
pub mod Bounds
pub mod Laws
pub mod Promise
