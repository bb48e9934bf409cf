pub mod Fronts
pub mod Lines
pub mod Listing
pub mod Messages
pub mod Texts
