pub mod Again
pub mod Counted
pub mod Framed
pub mod Masks
pub mod Payloads
pub mod Tables
