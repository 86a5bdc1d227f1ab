pub mod Kept
pub mod Chains
pub mod Judgements
pub use Rattle.chain_exec.proofs as chain_exec
