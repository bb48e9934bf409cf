pub mod Fronts
pub mod Flying
