pub mod Images
pub mod Moments
pub mod Calls
pub mod Crashes
pub mod Keeping
pub mod Replays
pub mod Telling
