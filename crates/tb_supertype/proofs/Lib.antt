pub mod Stacks
pub mod Casts
pub mod Wholes
