pub mod Home
pub mod Chains
pub mod Rows
pub mod Shelf
pub mod Plain
pub mod Recalled
