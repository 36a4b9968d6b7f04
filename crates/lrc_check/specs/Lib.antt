pub mod Verdict
pub mod Declares
pub mod Meaning
pub mod Within
