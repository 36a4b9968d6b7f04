pub mod Missing
pub mod Recalling
