pub mod HeaderLaw
pub mod Messages
