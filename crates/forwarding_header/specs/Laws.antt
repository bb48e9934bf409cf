-- Proofs that what is spelled is read, and nothing else is. They stand in specs/ since the impls of
-- layouts give them.
pub mod Destinations
pub mod Options
