pub mod Scans
pub mod Listings
pub mod Matches
pub mod Rows
pub mod Portions
