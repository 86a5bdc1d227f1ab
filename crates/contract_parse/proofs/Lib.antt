pub mod Sources
pub mod Parsed
pub mod Outcomes
pub mod Blocks
