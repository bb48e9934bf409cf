pub mod Flying
pub mod Reading
