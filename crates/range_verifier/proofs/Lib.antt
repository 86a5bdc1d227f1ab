pub mod Counting
pub mod Fields
pub mod Viewed
pub mod Faults
pub mod Verified
