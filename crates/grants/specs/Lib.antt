pub mod Choosing
pub mod Steps
