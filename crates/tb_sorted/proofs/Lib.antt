pub mod Numbers
pub mod Flagged
pub mod Turned
pub mod OneKey
pub mod Places
