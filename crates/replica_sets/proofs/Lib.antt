pub mod Arcs
pub mod Changes
pub mod Lists
pub mod Owned
pub mod Parts
pub mod Queued
