pub mod Each
pub mod Examples
