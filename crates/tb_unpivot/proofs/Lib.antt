pub mod Answered
pub mod Causes
pub mod CommonKinds
pub mod Lists
pub mod LongParts
pub mod LongTables
