pub mod Needs
pub mod Signed
pub mod Induced
pub mod Sets
pub mod Extended
pub mod Ordered
pub mod Examples
pub mod Laws
