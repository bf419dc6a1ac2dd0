pub mod Closing
pub mod Dropping
pub mod Promise
