-- What is promised: the definitions on which the answers of calls and programs stand. Words for the code stand beside this folder.
pub mod Datum
pub mod Kind
pub mod Names
pub mod Pairs
pub mod Refusals
pub mod Same
pub mod SameKind
pub mod Texts
pub mod Typed
