-- What is promised: the definitions on which the answers of calls and programs stand. Words for the code stand beside this folder.
pub mod Frame
pub mod Join
pub mod Naming
pub mod Refusal
pub mod Table
