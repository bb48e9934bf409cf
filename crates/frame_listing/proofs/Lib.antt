pub mod Frames
pub mod Fronts
pub mod OneListing
pub mod ReadParts
pub mod Wholes
