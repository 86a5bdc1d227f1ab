pub mod Compiled
pub mod Effect
pub mod Fold
pub mod Replay
pub mod BlockRows
pub mod Running
pub mod Laws
