pub mod Fakes
pub mod Heads
pub mod Lists
pub mod Outside
pub mod Whole
