pub mod WaitLemmas
pub mod MeasureLemmas
pub mod MoveLemmas
pub mod CountLemmas
pub mod TurnLemmas
pub mod RunLemmas
