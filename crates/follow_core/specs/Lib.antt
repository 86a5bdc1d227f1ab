pub mod Follower
pub mod Turning
