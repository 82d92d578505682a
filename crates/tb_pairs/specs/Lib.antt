pub mod AllColumns
pub mod Directions
pub mod KeyColumns
pub mod LentKeys
pub mod RowKeys
pub mod Traced
pub mod Promise
