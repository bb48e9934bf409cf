pub mod DiagRequests
pub mod DiagResponses
pub mod Laws
pub mod Tracks
