pub mod Naming
pub mod Each
pub mod Answers
