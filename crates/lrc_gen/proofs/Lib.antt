pub mod DrawLemmas
pub mod ExampleLemmas
pub mod NameLemmas
pub mod PartLemmas
pub mod TaskLemmas
pub mod TreeLemmas
