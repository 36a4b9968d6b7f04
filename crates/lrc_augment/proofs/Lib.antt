pub mod ListLemmas
pub mod TargetLemmas
pub mod OrderLemmas
pub mod CopyLemmas
pub mod AgainLemmas
pub mod CompleteLemmas
pub mod ThereLemmas
