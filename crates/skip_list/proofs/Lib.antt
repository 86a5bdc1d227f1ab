pub mod LinkLevels
pub mod Pushing
pub mod Turns
pub mod Lookups
pub mod Rungs
pub mod PathTurns
pub mod LinkTowers
pub mod OneList
pub mod Counting
pub use Rattle.entry_store.proofs as entry_store
