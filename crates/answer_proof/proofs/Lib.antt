pub mod Walks
pub mod Bodies
pub mod Covered
pub mod Gathered
pub mod Shown
