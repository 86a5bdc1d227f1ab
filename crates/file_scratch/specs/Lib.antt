pub mod Gathered
pub mod FileScratch
