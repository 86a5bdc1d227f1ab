pub mod Commands
pub mod OneCommand
pub mod Forms
