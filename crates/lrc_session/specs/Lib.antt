pub mod Sessions
pub mod Lending
pub mod Proposals
pub mod Faults
pub mod Copying
