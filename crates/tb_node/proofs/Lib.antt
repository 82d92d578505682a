pub mod ByName
pub mod KeptRows
pub mod KeptColumns
pub mod KeptAnswer
pub mod KeptRefusal
pub mod PushedNames
pub mod PushedMeans
pub mod Lowering
