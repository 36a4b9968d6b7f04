pub mod Forms
pub mod Building
pub mod Reading
pub mod Decoding
pub mod Stack
