pub mod Spelling
pub mod Reading
pub mod Reader
pub mod Prefixes
