pub mod Ways
pub mod Bytes
pub mod Gives
pub mod Sources
