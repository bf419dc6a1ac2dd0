pub mod Head
pub mod Content
pub mod State
pub mod Change
pub mod Edits
pub mod Old
