pub mod Lists
mod Levels
pub mod Falls
pub mod Differing
pub mod Towers
pub mod Threads
pub mod LinkLaws
pub mod PathLevels
pub mod Bound
pub mod PathTowers
pub mod Walks
pub mod OverRows
pub mod Scans
