pub mod ListLemmas
pub mod SignatureLemmas
