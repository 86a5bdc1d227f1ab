pub mod Versions
pub mod Links
pub mod Hops
pub mod StoreEntries
pub mod NextEntries
pub mod OtherKeys
pub mod ReadBack
pub mod Looking
pub mod MadeAgain
pub mod Earlier
pub mod OnPath
pub mod Blocks
pub mod ByKey
pub mod Using
pub mod ClosedLists
pub mod Entries
pub mod KeyLeaves
pub mod KeyLists
pub mod OldVersions
pub mod KeptStates
pub mod Settled
pub mod Renewed
pub mod LeafStates
pub mod Touched
pub mod NewEntries
pub mod MarkedUses
pub mod ClosedRows
pub mod SettledRows
pub mod Listed
pub mod BlockSteps
pub mod Keeping
pub mod NewestRows
pub use Rattle.plain_rows.proofs as plain_rows
pub use Rattle.plain_rows.proofs.root_laws as root_laws
pub use Rattle.state_tree.proofs as state_tree
