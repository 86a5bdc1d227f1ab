pub mod Ledger
pub mod Questions
pub mod Lineage
pub mod Places
pub mod Staying
pub mod Kept
pub mod Adding
pub use Rattle.lineage_rewind.specs.entry_store as entry_store
pub use Rattle.lineage_rewind.specs.lineage_index as lineage_index
pub use Rattle.lineage_rewind.specs.root_laws as root_laws
