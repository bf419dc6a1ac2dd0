pub mod Parts
pub mod Closing
pub mod Reading
pub mod Escapes
pub mod Whole
pub mod Unescaping
pub mod Steps
