pub mod Order
pub mod Contest
pub mod Steps
pub mod Sizes
pub mod Examples
