pub mod Chain
pub mod Judging
pub use Rattle.chain_exec.specs as chain_exec
