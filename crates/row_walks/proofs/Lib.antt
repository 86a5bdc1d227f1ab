pub mod Places
pub mod InTurn
pub mod LatestAt
pub mod Answered
pub mod OneMore
pub mod Whole
pub mod Versions
