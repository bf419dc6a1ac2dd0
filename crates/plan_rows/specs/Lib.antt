pub mod Places
pub mod Namings
