pub mod Faults
pub mod Grammar
pub mod Marks
pub mod Reading
pub mod Reads
pub mod Rules
pub use Rattle.contract_tokens.specs as contract_tokens
