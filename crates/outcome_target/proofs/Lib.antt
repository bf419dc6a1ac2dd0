pub mod Loading
pub mod Frames
pub mod Edits
pub mod Facts
pub mod Changes
pub mod Rows
