pub mod Fair
pub mod Each
