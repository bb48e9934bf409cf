pub mod Codes
pub mod Outboxes
pub mod Sends
pub mod Tables
pub mod Timed
