pub mod Promises
pub mod Laws
pub mod Lines
pub mod Appending
pub mod FollowLines
pub mod Following
pub mod FollowLaws
pub use Rattle.follower_steps.specs.chain_exec as chain_exec
pub use Rattle.follower_steps.specs.chain_replay as chain_replay
pub use Rattle.cli_lines.specs as cli_lines
pub use Rattle.follower_steps.specs as follower_steps
pub use Rattle.recovery.specs as recovery
