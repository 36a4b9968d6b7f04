pub mod Styles
pub mod Printing
