pub mod Values
pub mod Visits
pub mod Shown
pub mod Demand
pub mod Examples
pub mod Laws
