pub mod Spelling
pub mod ForwardLists
pub mod Digests
pub use Rattle.byte_fields.specs as byte_fields
pub use Rattle.merkle_tree.specs as merkle_tree
