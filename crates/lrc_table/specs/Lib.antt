pub mod Passes
pub mod Standings
pub mod Memo
