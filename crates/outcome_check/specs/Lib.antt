pub mod Counts
pub mod Check
