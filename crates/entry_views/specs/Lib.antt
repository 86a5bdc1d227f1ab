pub mod Reading
pub mod Items
pub mod Codecs
pub mod ShortLists
pub mod Headers
pub mod Bodies
pub mod Leaves
pub mod Standing
pub mod Placed
pub mod RowBodies
pub use Rattle.byte_fields.specs as byte_fields
pub use Rattle.prov_entry.specs as prov_entry
