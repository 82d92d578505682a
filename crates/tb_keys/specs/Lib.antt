pub mod Rows
pub mod Asked
pub mod Causes
pub mod Met
pub mod Coalescing
pub mod Promise
