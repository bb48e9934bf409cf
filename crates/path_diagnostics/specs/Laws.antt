-- Proofs that what is spelled is read, and nothing else is.
pub mod Diags
pub mod Tracks
