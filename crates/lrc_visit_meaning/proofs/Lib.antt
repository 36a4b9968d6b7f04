pub mod EndlessLemmas
pub mod DeclarationLemmas
pub mod NoCallLemmas
