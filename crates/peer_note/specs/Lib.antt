pub mod Kept
pub mod Kinds
pub mod Laws
pub mod Notes
