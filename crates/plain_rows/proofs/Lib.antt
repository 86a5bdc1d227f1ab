pub mod Marked
pub mod IndexKept
pub mod LastPlace
pub mod Using
pub mod Versions
pub mod UsedMore
pub mod UsedEnd
pub mod Later
pub mod IndexParts
pub mod Recorded
pub mod OneRow
pub mod First
pub mod Lists
pub mod AnswerParts
pub mod Keeping
pub use Rattle.root_laws.proofs as root_laws
