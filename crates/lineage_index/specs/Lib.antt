pub mod Versions
pub mod Entries
pub mod Growing
pub mod ReadBack
pub mod Headers
pub mod OnPath
pub mod Growth
pub mod Heads
pub mod Settling
pub mod Leaves
pub mod Closed
pub mod NewEntries
pub mod Blocks
pub mod Index
pub mod NewestRows
pub use Rattle.skip_list.specs.entry_store as entry_store
pub use Rattle.forward_links.specs as forward_links
pub use Rattle.plain_rows.specs as plain_rows
pub use Rattle.entry_views.specs.prov_entry as prov_entry
pub use Rattle.plain_rows.specs.root_laws as root_laws
pub use Rattle.state_tree.specs as state_tree
