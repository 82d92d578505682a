pub mod Behind
pub mod Parted
pub mod Written
