pub mod Rows
pub mod Lines
pub mod Values
pub mod Counts
pub mod Playing
pub mod Editing
pub mod Solo
pub mod Laws
