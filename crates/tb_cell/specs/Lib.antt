pub mod Fits
pub mod Flag
pub mod Physical
pub mod Shown
pub mod Window
pub mod Promise
