pub mod Sendings
pub mod Queues
pub mod Heads
pub mod Counts
pub mod Keeping
pub mod Deciding
pub mod Reacting
