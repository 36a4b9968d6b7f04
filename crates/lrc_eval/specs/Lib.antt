pub mod Values
pub mod Evaluating
pub mod Kinds
