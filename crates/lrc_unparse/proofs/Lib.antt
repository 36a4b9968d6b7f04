pub mod TextLemmas
pub mod StyleLemmas
pub mod StepLemmas
pub mod PatternLemmas
