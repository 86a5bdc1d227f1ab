pub mod Laws
pub mod Items
pub mod Pieces
pub mod Fields
pub mod Loops
pub mod LongestPrefixes
pub mod WrittenItems
