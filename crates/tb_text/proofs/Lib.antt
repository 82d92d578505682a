pub mod Takes
mod Fills
