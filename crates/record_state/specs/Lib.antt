pub mod Light
pub mod Codes
pub mod Undo
pub mod Log
pub mod Placing
pub mod Sweep
pub mod Written
pub mod Rings
