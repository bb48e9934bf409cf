pub mod Behind
pub mod Declared
pub mod Ends
pub mod Laws
pub mod Loops
pub mod Stops
