pub mod PlaceLemmas
pub mod DeclaredLemmas
pub mod ShapeLemmas
pub mod KidLemmas
pub mod BuildLemmas
pub mod PutLemmas
pub mod CopyLemmas
