pub mod Files
pub mod Operation
pub mod Promise
