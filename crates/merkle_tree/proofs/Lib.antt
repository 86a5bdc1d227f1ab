pub mod Agreeing
pub mod Sound
pub mod Rules
pub mod TheLaws
pub mod Steps
pub mod Chained
mod Raising
mod Top
mod Siblings
mod Beside
mod Renewed
