pub mod Disk
pub mod Outside
pub mod Fakes
pub mod Marks
pub mod Streams
pub mod Scratch
pub mod MemScratch
