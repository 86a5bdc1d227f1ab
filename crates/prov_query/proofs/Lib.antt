pub mod Spelled
pub mod Finding
pub use Rattle.merkle_dag.proofs.lineage_index as lineage_index
pub use Rattle.merkle_dag.proofs as merkle_dag
