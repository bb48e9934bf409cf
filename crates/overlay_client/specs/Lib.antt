pub mod Sound
pub mod Asked
pub mod Signing
pub mod Reactions
