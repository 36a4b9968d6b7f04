pub mod Growing
pub mod Words
pub mod StackLemmas
pub mod Decoding
pub mod Reading
pub mod FlatLemmas
pub mod TurnLemmas
