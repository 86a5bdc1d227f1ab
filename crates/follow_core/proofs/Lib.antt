pub mod Decisions
pub mod Delivered
pub mod Drained
pub mod Examples
