pub mod Rooms
pub mod PairNumbers
pub mod Marked
pub mod Turned
