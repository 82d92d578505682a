pub mod Planned
pub mod Trees
