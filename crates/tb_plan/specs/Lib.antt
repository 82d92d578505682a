pub mod Seen
pub mod Gives
pub mod Asked
pub mod Laws
pub mod Promise
