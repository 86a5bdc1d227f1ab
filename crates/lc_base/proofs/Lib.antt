pub mod Padding
pub mod WordOrder
pub mod PaddedOrder
pub mod TextBytes
pub mod Repeats
pub mod Lists
