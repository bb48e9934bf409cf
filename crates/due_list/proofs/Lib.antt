pub mod Ids
pub mod Orders
pub mod Vectors
