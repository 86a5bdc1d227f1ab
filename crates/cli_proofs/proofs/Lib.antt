pub mod Verifies
pub mod Proves
pub mod Exposes
pub mod Framed
pub mod Proofs
pub mod Checked
pub mod Read
pub mod Made
