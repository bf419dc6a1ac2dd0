pub mod Place
pub mod Sets
pub mod Step
pub mod Plain
