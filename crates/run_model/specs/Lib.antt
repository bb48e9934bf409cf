pub mod Worlds
pub mod Moves
pub mod Runs
pub mod Stops
