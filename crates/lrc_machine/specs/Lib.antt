pub mod Steps
pub mod Waits
pub mod Counts
pub mod Machine
pub mod Levels
pub mod Measure
