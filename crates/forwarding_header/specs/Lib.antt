pub mod Destinations
pub mod Header
pub mod Laws
pub mod Options
