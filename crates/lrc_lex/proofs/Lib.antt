pub mod Runs
pub mod DecimalLemmas
pub mod PathLemmas
pub mod Utf8Lemmas
pub mod TextLemmas
pub mod NextLemmas
pub mod Steps
pub mod TokensLemmas
