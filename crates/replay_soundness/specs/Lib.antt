pub mod Chains
pub mod Soundness
pub mod Traces
pub mod Ranges
pub mod Literals
pub mod TypedChains
pub mod TypedLaws
pub mod FalseLaws
pub mod LightSoundness
pub use Rattle.chain_input.specs as chain_input
pub use Rattle.light_client.specs as light_client
pub use Rattle.rooted_chain.specs as rooted_chain
pub use Rattle.text_clashes.specs as text_clashes
