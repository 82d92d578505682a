pub mod Cells
pub mod Laid
pub mod Laws
pub mod Notes
pub mod Promise
pub mod Room
pub mod Widths
