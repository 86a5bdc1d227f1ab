pub mod Places
pub mod Users
pub mod First
pub mod Index
pub mod Kept
pub use Rattle.root_laws.specs as root_laws
