pub mod Tellings
pub mod Sure
pub mod Resting
pub mod Runs
pub mod Statuses
pub use Rattle.cli_lines.proofs as cli_lines
pub use Rattle.recovery.proofs as recovery
