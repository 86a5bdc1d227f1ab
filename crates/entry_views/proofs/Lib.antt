pub mod Items
pub mod Links
pub mod Placing
pub mod Determined
pub mod First
pub mod Indexed
pub mod Read
pub mod Bodies
pub use Rattle.byte_fields.proofs as byte_fields
