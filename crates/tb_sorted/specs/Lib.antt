pub mod Orders
pub mod Keys
pub mod SortedRows
pub mod Columns
pub mod Path
pub mod Listed
pub mod Promise
