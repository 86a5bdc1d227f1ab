pub mod Lists
pub mod Respelled
pub mod Printed
pub mod Reread
pub mod RereadStatements
pub mod RereadContracts
pub mod WithoutOffsets
