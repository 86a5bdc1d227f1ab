mod Compilers
pub mod TxRows
pub mod BlockSteps
mod SameEffects
mod Told
pub mod TheLaws
mod Costs
