pub mod Codes
pub mod Kept
pub mod Noted
pub mod Sendings
pub mod Small
