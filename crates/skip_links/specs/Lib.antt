pub mod Links
pub mod Falling
pub mod Versions
pub mod Laws
pub mod Towers
pub mod Paths
pub mod Examples
