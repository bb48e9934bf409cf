-- Proofs that what is spelled is read, and nothing else is.
pub mod Bodies
pub mod Codes
pub mod Contents
pub mod Extensions
pub mod Leave
pub mod Probe
pub mod ProbeAns
pub mod StoreAns
pub mod Update
