pub mod ResolvedLemmas
pub mod TermLawLemmas
pub mod FoundLemmas
pub mod JobLemmas
pub mod LawLemmas
