pub mod Plan
pub mod Operations
pub mod Promise
