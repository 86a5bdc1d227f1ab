pub mod Node
pub mod Restoring
pub use Rattle.rooted_chain.specs as rooted_chain
