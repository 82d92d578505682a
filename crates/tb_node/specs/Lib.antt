pub mod Seen
pub mod TableMaps
pub mod Lowered
pub mod Kept
pub mod Means
pub mod Laws
pub mod Promise
