pub mod Spelled
pub mod Forms
pub mod Decoding
pub mod Reached
pub mod Meaning
