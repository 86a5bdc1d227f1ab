pub mod Reading
pub mod Errors
pub mod Shown
pub mod Verdicts
