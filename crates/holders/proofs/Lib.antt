pub mod Rows
pub mod Names
pub mod Lists
pub mod Turns
pub mod Answers
