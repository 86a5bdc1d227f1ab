pub mod Named
pub mod Sides
pub mod Kinds
pub mod Runs
pub mod Versions
pub mod PlainNumbers
pub use Rattle.contract_check.specs as contract_check
pub use Rattle.contract_semantics.specs as contract_semantics
