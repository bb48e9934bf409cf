pub mod Runs
pub mod Texts
pub mod Laws
pub mod Outcomes
pub mod Broken
