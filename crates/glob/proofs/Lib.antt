pub mod Place
pub mod Sets
pub mod Members
pub mod Steps
pub mod Search
pub mod Alternatives
pub mod Plain
