pub mod Steps
pub mod Events
pub mod Laws
pub use Rattle.chain_replay.specs.chain_exec as chain_exec
pub use Rattle.chain_replay.specs as chain_replay
