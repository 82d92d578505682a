pub mod Laws
pub mod Rows
pub mod AnswerColumns
pub mod Ready
pub mod RowOrder
pub mod Promise
