pub mod Transcript
pub mod Words
