pub mod Rows
pub mod Walk
pub mod Texts
pub mod Outputs
