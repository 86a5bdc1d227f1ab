pub mod BlockRoots
pub mod Files
pub mod Taking
pub mod Answering
pub mod Judged
pub mod Verdicts
pub mod Made
pub mod Pieces
