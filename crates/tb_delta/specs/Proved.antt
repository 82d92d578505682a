-- Facts that code cites.
pub mod KeyOrder
