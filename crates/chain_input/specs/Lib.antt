pub mod Folding
pub mod Taking
pub mod Turns
pub use Rattle.chain_replay.specs.chain_exec as chain_exec
pub use Rattle.chain_replay.specs as chain_replay
