pub mod Order
pub mod Shelves
pub mod Undoings
pub mod Gathers
pub mod Gives
pub mod Answering
