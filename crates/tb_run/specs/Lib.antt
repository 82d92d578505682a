pub mod Ends
pub mod Forms
pub mod Memory
pub mod Reading
pub mod Due
pub mod Run
pub mod Promise
