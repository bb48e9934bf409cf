pub mod Assembling
pub mod Behind
pub mod Found
pub mod Laws
pub mod Making
pub mod Reading
pub mod Signed
pub mod Taking
