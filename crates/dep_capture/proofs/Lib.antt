pub mod Places
pub mod Backed
pub mod Apart
pub mod Keeping
