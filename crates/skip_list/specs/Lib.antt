pub mod Towered
pub mod Lookups
pub mod Climbing
pub mod LookedAt
pub mod Examples
pub use Rattle.entry_store.specs as entry_store
