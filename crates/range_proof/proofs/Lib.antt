pub mod Links
pub mod Walking
pub mod Counts
pub mod Told
pub mod Found
pub mod Written
pub mod Leafed
pub mod Made
