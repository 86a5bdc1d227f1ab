pub mod Adding
pub mod FirstPlaces
pub mod Looking
pub mod OneFirst
pub mod Searched
pub mod Ways
pub mod Parts
pub mod PartClash
pub use Rattle.proof_checks.proofs as proof_checks
