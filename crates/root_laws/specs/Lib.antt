pub mod Naming
pub mod Root
pub mod GrowthLaws
pub mod NamingLaws
pub mod KeyLaws
pub mod WalkLaws
pub mod TypedLedger
pub mod TypedLaws
pub mod Ancestors
pub mod Places
pub mod AncestorLaws
pub mod AncestorSteps
pub mod AncestorExamples
pub mod Ranges
pub mod RangeSteps
pub mod RangeLaws
pub mod RangeExamples
pub use Rattle.prov_entry.specs.merkle_tree as merkle_tree
pub use Rattle.prov_entry.specs as prov_entry
