pub mod Whole
pub mod Lines
pub mod Status
pub mod Outcome
pub use Rattle.chain_input.specs as chain_input
