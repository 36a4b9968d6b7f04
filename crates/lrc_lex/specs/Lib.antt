pub mod Forms
pub mod Decimal
pub mod Place
pub mod Front
pub mod Tokens
pub mod Longest
pub mod Quoted
