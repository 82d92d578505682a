-- What is promised: the definitions on which the answers of calls and programs stand. Words for the code stand beside this folder.
pub mod Written
pub mod Members
pub mod Reading
pub mod Answers
pub mod Texts
