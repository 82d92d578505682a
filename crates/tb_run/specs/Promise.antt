-- What is promised: the definitions on which the answers of calls and programs stand. Words for the code stand beside this folder.
pub mod Due
pub mod Exactly
pub mod Headline
pub mod Requests
pub mod Statuses
pub mod Traces
pub mod Words
