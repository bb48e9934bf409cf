pub mod Places
pub mod Room
pub mod Merging
pub mod Ranks
pub mod Naming
