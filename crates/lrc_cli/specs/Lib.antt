pub mod Printed
pub mod Headline
pub mod Causes
pub mod Summary
pub mod Status
pub mod Running
