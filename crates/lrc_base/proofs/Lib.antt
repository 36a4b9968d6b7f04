pub mod ForestLemmas
pub mod HeightLemmas
pub mod ItemLemmas
pub mod RawItemLemmas
