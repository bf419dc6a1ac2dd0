pub mod Sets
pub mod Lent
