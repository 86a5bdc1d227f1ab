pub mod Finding
pub mod Counting
pub mod Tracing
pub mod Items
pub mod Proving
pub use Rattle.answer_proof.specs as answer_proof
