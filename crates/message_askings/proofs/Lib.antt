pub mod Turns
pub mod Infos
pub mod Spellings
