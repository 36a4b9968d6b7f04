pub mod RuleLemmas
pub mod DefaultLemmas
pub mod CommandLemmas
pub mod ParseLemmas
