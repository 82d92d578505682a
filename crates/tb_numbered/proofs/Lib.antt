pub mod NumberedRows
pub mod Places
pub mod Steps
