pub mod Count
pub mod Known
pub mod Memory
