pub mod Hashing
pub mod Texts
pub mod NoUses
pub use Rattle.merkle_tree.proofs as merkle_tree
