pub mod Lists
pub mod Bytes
pub mod Runs
pub mod Items
pub mod Checked
pub mod Refusal
pub mod Sizes
pub mod Quoted
