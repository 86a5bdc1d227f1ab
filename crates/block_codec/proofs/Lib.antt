pub mod Written
pub mod Txs
pub mod Blocks
pub mod WholeBlocks
pub mod Decoders
pub mod FrameBytes
pub mod Placements
pub mod Versions
