pub mod Places
pub mod Growth
pub mod Unique
pub mod Counts
pub mod Extends
pub mod Keeping
pub mod Masks
