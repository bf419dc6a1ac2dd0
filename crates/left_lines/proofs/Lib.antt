pub mod Fates
pub mod Lines
pub mod Leaves
