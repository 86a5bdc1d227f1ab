pub mod Exposing
pub mod Proving
pub mod Checking
