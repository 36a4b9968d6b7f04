pub mod Opened
pub mod Follow
pub mod Probing
pub mod Standings
pub mod Stores
pub mod Recalling
