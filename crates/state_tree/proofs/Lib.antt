pub mod Covered
pub mod Entries
pub mod Keys
pub mod Marks
pub mod Parts
pub mod Positions
pub mod Threads
pub mod Together
