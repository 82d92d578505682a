pub mod KeyFields
pub mod KeysNamed
pub mod Refusing
pub mod CoalescedKeys
pub mod CoalescedColumns
