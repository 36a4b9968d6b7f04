pub mod AcceptedLemmas
pub mod LetsOrderLemmas
pub mod NamedLemmas
pub mod RankLemmas
pub mod DrawnLemmas
