pub mod KeyRows
pub mod Meets
pub mod PartTables
