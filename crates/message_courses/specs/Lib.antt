pub mod Seen
pub mod Heard
pub mod Fits
pub mod Owned
