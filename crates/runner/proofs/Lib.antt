pub mod Seek
pub mod Running
