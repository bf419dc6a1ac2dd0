pub mod Fields
pub mod Lying
