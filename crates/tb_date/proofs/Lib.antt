pub mod FirstFound
pub mod CivilDays
pub mod DateDigits
pub mod DatesBack
pub mod DateTexts
