pub mod Jumps
pub mod Labels
