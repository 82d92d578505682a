pub mod Extremes
pub mod Keeping
pub mod Outcomes
pub mod Own
pub mod Picked
pub mod Ranges
pub mod Steps
pub mod Totals
