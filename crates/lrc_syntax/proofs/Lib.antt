pub mod ListLemmas
pub mod PartLemmas
pub mod ProductionLemmas
pub mod TextLemmas
pub mod TreeLemmas
