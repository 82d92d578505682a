pub mod CodedKeys
pub mod Keys
pub mod Tables
pub mod Found
