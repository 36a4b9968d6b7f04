pub mod NodeLemmas
pub mod SessionLemmas
pub mod TermLemmas
