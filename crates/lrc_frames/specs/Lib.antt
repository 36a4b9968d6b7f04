pub mod Frames
pub mod Lists
pub mod Nodes
pub mod Steps
pub mod Taking
pub mod Beginning
pub mod Writing
