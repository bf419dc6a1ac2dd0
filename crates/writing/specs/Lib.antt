pub mod Writing
pub mod Wanted
