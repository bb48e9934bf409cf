pub mod Block
pub mod Claims
pub mod Known
pub mod Laws
pub mod Signers
pub mod StandIn
