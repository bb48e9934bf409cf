pub mod Codes
pub mod Steps
pub mod Gathered
pub mod Written
pub mod Undoing
