pub mod Resolved
pub mod Found
pub mod TermLaws
pub mod Fitting
pub mod Job
pub mod Laws
