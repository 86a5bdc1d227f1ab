pub mod Tree
pub mod Builtins
