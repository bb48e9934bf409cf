pub mod Acked
pub mod Finds
pub mod Framing
pub mod Held
pub mod Reading
pub mod Streams
pub mod Views
