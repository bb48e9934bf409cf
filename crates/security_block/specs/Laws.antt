-- Proofs that impls give: layouts are read as they are spelled, and the stand-in is a signer.
pub mod Blocks
pub mod Claims
pub mod StandIn
