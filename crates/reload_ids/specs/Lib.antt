pub mod Ids
pub mod Ring
