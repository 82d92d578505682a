pub mod Filled
pub mod Held
pub mod Lists
pub mod Moved
pub mod RunViews
pub mod Views
pub mod ViewArrays
