pub mod Filled
pub mod Targets
pub mod Orders
pub mod Laws
