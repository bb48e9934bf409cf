pub mod Records
pub mod Refusals
pub mod Requests
pub mod Puts
pub mod Verdict
pub mod Fetches
pub mod Decisions
pub mod Laws
