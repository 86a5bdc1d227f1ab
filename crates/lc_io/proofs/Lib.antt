pub mod Pieces
pub mod Pulling
pub mod Filled
pub mod Telling
pub mod Writing
pub mod Retaining
pub mod Appending
