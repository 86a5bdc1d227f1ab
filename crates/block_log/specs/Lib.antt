pub mod Standing
pub mod Log
pub mod Stricter
pub mod Steps
pub mod Reading
pub mod Ahead
pub mod Reader
