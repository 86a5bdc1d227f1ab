pub mod Lookups
pub mod Building
pub mod Loads
