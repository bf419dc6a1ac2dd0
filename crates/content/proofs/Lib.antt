pub mod Owners
pub mod Names
pub mod Modes
