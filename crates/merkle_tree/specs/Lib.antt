pub mod Tree
pub mod Climbing
pub mod Levels
pub mod Clash
pub mod Chains
pub mod Laws
pub use Rattle.digest_kit.specs as digest_kit
