pub mod Asked
pub mod Compared
pub mod Faults
pub mod Parted
pub mod Sorts
pub mod ByKeys
