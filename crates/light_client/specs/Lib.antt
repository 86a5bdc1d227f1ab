pub mod Format
pub mod Reading
pub mod FileLaws
pub mod Checking
pub mod Ledgers
pub mod Making
pub mod MadeLaws
