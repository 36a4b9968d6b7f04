pub mod Sites
pub mod ItemSets
pub mod Waiting
pub mod Running
pub mod Handing
pub mod Gaining
pub mod Planned
pub mod Text
