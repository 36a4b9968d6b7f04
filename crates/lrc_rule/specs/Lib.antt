pub mod Layout
pub mod Home
pub mod Rows
pub mod Memo
pub mod Views
pub mod Steps
