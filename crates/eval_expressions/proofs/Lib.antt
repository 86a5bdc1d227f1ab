pub mod Named
pub mod Items
pub mod Faithful
pub mod Charging
pub mod PlainNumbers
pub mod ToldRows
pub mod Binary
