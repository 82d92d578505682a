pub mod Alone
pub mod Cleared
pub mod Cuts
pub mod KeyColumns
pub mod Level
pub mod Coalescable
pub mod Standing
