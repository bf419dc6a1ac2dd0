pub mod Loading
pub mod Turns
pub mod Places
pub mod Answers
