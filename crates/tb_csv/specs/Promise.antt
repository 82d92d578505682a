-- What is promised: the definitions on which the answers of calls and programs stand. Words for the code stand beside this folder.
pub mod Faults
pub mod Keys
pub mod LineNumbers
pub mod Records
pub mod Tables
pub mod Texts
pub mod Types
