pub mod Longer
pub mod Rising
pub mod Logs
pub mod Inputs
pub mod Sound
pub mod Traced
pub mod Ranged
pub mod Values
pub mod Keeping
pub mod Reading
pub mod Expressions
pub mod Puts
pub mod Statements
pub mod Calls
pub mod Blocks
pub mod Replays
pub mod Literals
pub mod Compiling
pub mod TypedChains
pub mod False
pub mod LightSound
pub mod Made
pub use Rattle.rooted_chain.proofs as rooted_chain
pub use Rattle.text_clashes.proofs as text_clashes
