pub mod Sizes
pub mod Lists
pub mod Courses
pub mod Own
pub mod Messages
