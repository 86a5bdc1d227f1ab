pub mod Copying
pub mod Read
pub mod Verified
