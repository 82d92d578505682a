mod Asked
mod SameShape
pub mod CountTexts
pub mod TwoForms
