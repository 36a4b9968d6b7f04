pub mod Tables
pub mod Missing
pub mod Setup
pub mod Cycles
pub mod Faults
pub mod Turns
pub mod Numbered
pub mod Small
