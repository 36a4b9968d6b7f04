pub mod Kinds
pub mod Language
pub mod Reading
pub mod Limited
pub mod Exact
pub mod Faults
pub mod Sums
