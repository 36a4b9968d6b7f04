pub mod ShownLemmas
pub mod RowLemmas
pub mod PairsLemmas
