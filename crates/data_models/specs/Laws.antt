-- What is spelled is read, and nothing else is: proofs for the impls of decoders, which give them.
pub mod Stored
pub mod StoreKinds
pub mod Specifiers
