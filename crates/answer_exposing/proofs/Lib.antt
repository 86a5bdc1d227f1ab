pub mod OneMore
pub mod Onward
pub mod TreeTexts
pub mod Spelled
pub mod Exposed
