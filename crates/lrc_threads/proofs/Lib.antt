-- Lemmas of the sessions that share a table.
mod FinalLemmas
mod PlayedLemmas
mod OpeningLemmas
mod CrossingLemmas
