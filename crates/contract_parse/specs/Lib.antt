pub mod Syntax
pub mod Blocks
