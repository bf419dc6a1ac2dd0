pub mod Line
pub mod Rules
pub mod Lines
pub mod Whole
pub mod Numbers
pub mod Notes
pub mod Kept
pub mod Places
