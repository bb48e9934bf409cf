pub mod Decoders
pub mod Entries
pub mod Puts
