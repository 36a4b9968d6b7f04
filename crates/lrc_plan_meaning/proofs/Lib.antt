pub mod ItemLemmas
pub mod GreedyLemmas
pub mod DeclarationLemmas
pub mod ReadyLemmas
pub mod ExtendedLemmas
