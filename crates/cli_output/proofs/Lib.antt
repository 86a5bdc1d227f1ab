pub mod Plain
pub mod Ends
pub mod Meets
pub mod Found
pub mod Reached
pub mod Exposed
pub mod WrongTold
pub mod LoadTexts
pub use Rattle.cli_promises.proofs as cli_promises
pub use Rattle.proof_commands.proofs as proof_commands
pub use Rattle.replay_soundness.proofs as replay_soundness
pub use Rattle.replay_soundness.proofs.rooted_chain as rooted_chain
