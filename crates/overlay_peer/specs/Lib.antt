pub mod Memberships
pub mod Codes
pub mod Kept
pub mod Plans
