pub mod Points
pub mod Counting
pub mod Bodies
pub mod Advancing
