pub mod Items
pub mod Sequences
pub mod Bindings
pub mod Plans
pub mod Sound
pub mod Laws
pub mod Examples
