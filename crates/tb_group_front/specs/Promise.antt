-- What is promised: the definitions on which the answers of calls and programs stand.
pub mod Grouped
pub mod Sorted
pub mod Words
