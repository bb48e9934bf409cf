pub mod Folds
pub mod Ends
pub mod Ways
pub mod Farthest
