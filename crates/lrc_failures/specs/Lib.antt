pub mod Pieces
pub mod Gains
pub mod Lines
pub mod Taken
