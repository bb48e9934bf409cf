pub mod Policies
