pub mod Bodies
pub mod Agreement
pub mod Cached
