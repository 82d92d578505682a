-- What is promised: the definitions on which the answers of calls and programs stand. Words for the code stand beside this folder.
pub mod Calls
pub mod Rows
