pub mod Ends
pub mod Equality
pub mod Groups
pub mod Trims
