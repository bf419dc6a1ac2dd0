pub mod Contest
pub mod Operation
pub mod Promise
