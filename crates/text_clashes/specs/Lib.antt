pub mod FirstClash
pub mod Places
pub mod Search
pub mod Searching
pub mod Ways
pub mod PartClash
pub use Rattle.proof_checks.specs as proof_checks
