pub mod Runs
pub mod Sessions
pub mod Halves
pub mod Finals
