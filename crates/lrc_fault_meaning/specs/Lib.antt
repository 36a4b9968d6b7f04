pub mod Faults
pub mod Examples
