mod FirstRefused
mod Stages
mod Fitting
mod KeptFaults
mod Outcomes
mod RowValues
mod SameShape
mod KeptTexts
pub mod TwoForms
