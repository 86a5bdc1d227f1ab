pub mod Places
pub mod Errors
pub mod Reading
pub mod Starting
pub mod Items
pub mod Wanting
pub mod Malformed
pub mod Verdicts
pub use Rattle.proof_verifier.specs as proof_verifier
