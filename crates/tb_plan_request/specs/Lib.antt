pub mod Forms
pub mod Lent
pub mod Laws
pub mod Promise
