pub mod Reading
pub mod Cut
pub mod Filled
pub mod AllLeaves
pub mod Begun
pub mod KeysAt
pub mod UsesAt
pub mod LeavesAt
pub use Rattle.lineage_index.proofs as lineage_index
pub use Rattle.lineage_index.proofs.plain_rows as plain_rows
pub use Rattle.lineage_index.proofs.root_laws as root_laws
