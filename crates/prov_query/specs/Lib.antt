pub mod Found
pub mod Telling
pub mod Bodiless
pub mod Asking
pub use Rattle.merkle_dag.specs.lineage_index as lineage_index
pub use Rattle.merkle_dag.specs as merkle_dag
