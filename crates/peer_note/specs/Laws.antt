-- Proofs that what is spelled is read, and nothing else is.
pub mod Kept
pub mod Kinds
pub mod Notes
