pub mod RowLemmas
pub mod Lists
pub mod Standings
pub mod Calls
pub mod Memo
