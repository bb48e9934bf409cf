pub mod Ids
pub mod Laws
pub mod Layout
pub mod Part
pub mod Reading
pub mod Signature
pub mod Spelling
