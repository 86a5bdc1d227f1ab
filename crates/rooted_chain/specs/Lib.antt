pub mod Roots
pub use Rattle.chain_replay.specs.chain_exec as chain_exec
pub use Rattle.chain_replay.specs as chain_replay
pub use Rattle.prov_query.specs.merkle_dag as merkle_dag
