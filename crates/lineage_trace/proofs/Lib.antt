pub mod Answered
pub mod Counts
pub mod OneMore
pub mod Whole
pub mod Spelled
pub mod Itemed
pub mod Made
