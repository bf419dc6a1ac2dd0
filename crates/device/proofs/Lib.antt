pub mod Head
pub mod Members
pub mod RoundTrip
pub mod Sound
pub mod Places
pub mod Examples
