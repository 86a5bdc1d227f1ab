pub mod Draft
pub mod Json
pub mod Transactions
pub mod Reading
pub mod Draws
pub mod GeneratedTransactions
pub mod Generator
