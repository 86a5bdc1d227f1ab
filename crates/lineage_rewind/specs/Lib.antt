pub mod Front
pub mod LeavesAt
pub use Rattle.lineage_index.specs.entry_store as entry_store
pub use Rattle.lineage_index.specs as lineage_index
pub use Rattle.lineage_index.specs.plain_rows as plain_rows
pub use Rattle.lineage_index.specs.prov_entry as prov_entry
pub use Rattle.lineage_index.specs.root_laws as root_laws
