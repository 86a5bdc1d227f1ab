pub mod Lengths
pub mod Placed
pub mod Counting
pub mod Told
