pub mod Bindings
pub mod Flows
pub mod Endings
pub mod Turns
pub use Rattle.eval_expressions.specs.contract_check as contract_check
pub use Rattle.eval_expressions.specs.contract_semantics as contract_semantics
