-- Proofs that what is spelled is read, and nothing else is. They stand in specs/ since the impls of
-- layouts give them.
pub mod Bytes
pub mod Forms
pub mod Ids
pub mod Lists
pub mod Signatures
pub mod Steps
pub mod Words
