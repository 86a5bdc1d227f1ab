pub mod Rooted
pub mod HasRun
pub mod Blame
pub use Rattle.chain_replay.proofs as chain_replay
pub use Rattle.prov_query.proofs.merkle_dag as merkle_dag
