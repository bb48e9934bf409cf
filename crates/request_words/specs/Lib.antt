pub mod Bytes
pub mod Groups
pub mod Nodes
pub mod Raw
pub mod Resources
pub mod Specifiers
pub mod Values
