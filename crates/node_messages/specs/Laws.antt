-- Proofs that it is decided whether each part of a message has a spelling, which the definition of
-- what is made asks. Their types say all.
pub mod Bodies
pub mod Decided
pub mod Parts
pub mod Values
