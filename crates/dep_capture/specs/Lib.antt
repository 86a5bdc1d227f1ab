pub mod Captured
pub mod Keyed
pub mod Capture
