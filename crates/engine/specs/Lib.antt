pub mod Match
pub mod Substitute
pub mod Assign
pub mod Programs
pub mod Step
pub mod Operations
pub mod Convert
pub mod Listing
