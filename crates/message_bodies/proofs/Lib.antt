pub mod MessageLaw
