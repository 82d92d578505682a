pub mod Held
pub mod Layout
pub mod Moved
pub mod RunViews
pub mod View
pub mod ViewArrays
pub mod Promise
