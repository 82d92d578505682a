pub mod NodeMembers
pub mod ByMembers
pub mod Asked
pub mod Zipped
pub mod Beside
pub mod PlanRead
pub mod TwoForms
