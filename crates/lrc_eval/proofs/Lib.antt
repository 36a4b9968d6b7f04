pub mod ValueLemmas
pub mod SameLemmas
pub mod CellLemmas
pub mod GivenLemmas
pub mod EvaluateLemmas
pub mod MakeLemmas
pub mod FormLemmas
pub mod KindLemmas
