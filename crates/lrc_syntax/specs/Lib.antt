pub mod Spelling
pub mod Faults
pub mod Trees
pub mod Syntax
pub mod Spelled
