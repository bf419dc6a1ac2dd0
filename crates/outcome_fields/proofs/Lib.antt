pub mod Flags
pub mod Names
