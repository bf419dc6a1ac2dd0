pub mod Paths
pub mod Ends
pub mod Members
pub mod Chain
