pub mod Walks
pub mod LentValues
pub mod Flat
pub mod Depths
pub mod CellForms
pub mod Plain
pub mod Fields
pub mod Narrow
pub mod Nested
pub mod PlainTables
pub mod Runs
pub mod FieldWalks
pub mod ValueWalks
pub mod ArrayWalks
mod RunWalks
mod Pushed
pub mod KindsBack
pub mod ReadBack
pub mod TextPlain
pub mod ValuesBack
pub mod OneToOne
mod StoredTexts
mod StandsForItself
