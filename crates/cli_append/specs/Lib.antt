pub mod Steps
pub mod FollowSteps
pub use Rattle.cli_promises.specs as cli_promises
pub use Rattle.cli_promises.specs.recovery as recovery
