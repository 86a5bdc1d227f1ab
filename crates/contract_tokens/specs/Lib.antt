pub mod Spelling
pub mod Lexemes
pub mod Tokens
pub mod Pieces
pub mod Listing
