pub mod Neighbours
pub mod Rising
pub mod Sides
pub mod Tables
