pub mod Accepted
pub mod Back
pub mod Lookups
pub mod Places
pub mod Stacked
