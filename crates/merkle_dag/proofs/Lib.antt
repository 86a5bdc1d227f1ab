pub mod LedgerSteps
pub mod Keeping
pub mod RowBodies
pub mod Versions
pub mod NextRows
pub mod FirstBlocks
pub mod Causes
pub mod LookedAt
pub use Rattle.lineage_rewind.proofs.lineage_index as lineage_index
pub use Rattle.lineage_rewind.proofs.plain_rows as plain_rows
pub use Rattle.lineage_rewind.proofs.root_laws as root_laws
