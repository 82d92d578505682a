pub mod TheAnswer
pub mod Outcomes
pub mod BeforeJoin
pub mod NodeLemmas
pub mod RepeatedNames
pub mod Wide
pub mod Runs
