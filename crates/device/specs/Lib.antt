pub mod Head
pub mod Device
pub mod Places
