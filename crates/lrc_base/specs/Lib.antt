pub mod Flat
pub mod Forest
pub mod Name
pub mod RawFlat
pub mod RawTerms
pub mod Terms
