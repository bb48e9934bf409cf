pub mod Makers
pub mod Readers
pub mod Wholes
