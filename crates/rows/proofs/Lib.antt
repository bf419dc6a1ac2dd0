pub mod Heads
pub mod Turns
pub mod Readers
pub mod Lookup
pub mod Search
pub mod Content
