pub mod Marks
pub mod Cleaning
pub mod Names
