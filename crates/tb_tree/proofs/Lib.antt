pub mod Views
mod Reading
mod Numbers
