pub mod Finite
pub mod KeyMaps
pub mod NumberMaps
pub mod Places
pub mod Trees
