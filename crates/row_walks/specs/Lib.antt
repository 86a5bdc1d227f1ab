pub mod Finding
pub use Rattle.plain_rows.specs as plain_rows
pub use Rattle.root_laws.specs as root_laws
