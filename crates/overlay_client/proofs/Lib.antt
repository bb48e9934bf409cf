pub mod Tables
pub mod Notes
pub mod Sounds
pub mod Made
pub mod Signing
pub mod Hears
pub mod Clocks
pub mod Asks
