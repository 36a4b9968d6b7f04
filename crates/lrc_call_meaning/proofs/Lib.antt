pub mod DecodingLemmas
pub mod SpelledLemmas
pub mod ValueLemmas
