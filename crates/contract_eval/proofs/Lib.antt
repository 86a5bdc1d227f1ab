pub mod Following
pub mod Faithful
pub mod Arguments
pub mod Called
pub mod Loops
pub mod Branches
pub mod Keeping
