pub mod Crash
pub mod Disk
pub mod Leaving
pub mod Machine
pub mod Marks
pub mod Replays
pub mod Sound
