pub mod Numbers
pub mod Totals
pub mod Pairs
pub mod Answered
pub mod Exact
