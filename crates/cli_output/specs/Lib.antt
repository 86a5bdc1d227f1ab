pub mod Texts
pub mod Blocks
pub mod Questions
pub mod Proofs
pub mod Frames
pub mod Lights
pub mod LoadLine
pub mod Output
pub mod Uses
pub mod Running
pub mod Scanning
pub mod Telling
pub mod Showing
pub use Rattle.cli_promises.specs.cli_lines as cli_lines
pub use Rattle.cli_promises.specs as cli_promises
pub use Rattle.replay_soundness.specs.light_client as light_client
pub use Rattle.proof_commands.specs as proof_commands
pub use Rattle.replay_soundness.specs as replay_soundness
