pub mod Finding
pub mod Telling
pub mod Parts
pub mod Proving
