pub mod KeyValues
pub mod Rows
