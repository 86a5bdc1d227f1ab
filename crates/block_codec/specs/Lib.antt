pub mod Spelling
pub mod Reading
pub mod Frames
pub mod Decoding
pub mod Encoding
pub mod Placement
