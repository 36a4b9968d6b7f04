pub mod Drawing
pub mod Generated
pub mod Lets
pub mod Names
pub mod Tasks
