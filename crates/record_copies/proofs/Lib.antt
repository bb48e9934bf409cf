pub mod Weights
pub mod Order
pub mod Placing
pub mod Pushing
pub mod CopiedSlots
pub mod CopiedKinds
pub mod Needed
