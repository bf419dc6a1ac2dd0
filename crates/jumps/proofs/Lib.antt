pub mod Goes
pub mod Labels
pub mod Nineteen
