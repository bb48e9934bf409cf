pub mod Best
pub mod Routes
