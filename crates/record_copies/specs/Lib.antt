pub mod Said
pub mod Copied
