pub mod Codes
pub mod Indexes
pub mod Names
pub mod WellKinded
pub mod Faults
pub mod Functions
