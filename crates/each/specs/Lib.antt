pub mod Each
pub mod Wanted
