pub mod Layouts
pub mod Fronts
pub mod Cases
pub mod Taken
pub mod Runs
pub mod Heard
pub mod Missing
