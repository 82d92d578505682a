pub mod Columns
pub mod Forms
pub mod Lent
pub mod Promise
