pub mod Configs
pub mod Stored
pub mod StoreKinds
pub mod Specifiers
pub mod Laws
