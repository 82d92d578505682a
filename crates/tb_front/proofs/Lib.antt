mod Watching
mod ToldAlike
mod Alike
pub mod Dues
pub mod Each
pub mod Joined
pub mod LongTexts
pub mod NoClash
pub mod OneTable
pub mod Outcomes
mod Read
pub mod Steps
pub mod TextFaults
pub mod Undecimal
mod Untyped
