pub mod NamingLemmas
pub mod ListLemmas
pub mod CountLemmas
pub mod PatternLemmas
pub mod ProductionLemmas
