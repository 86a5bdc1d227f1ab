pub mod Leaves
pub mod Covering
pub mod Entries
pub mod Stale
pub mod Order
pub mod Laws
