pub mod Lines
pub mod TraceLines
pub mod RangeLines
pub mod Refusing
pub mod Verifying
pub mod Copying
