pub mod Accepted
pub mod LetsGrammar
