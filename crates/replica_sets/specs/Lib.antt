pub mod Refills
pub mod Rising
