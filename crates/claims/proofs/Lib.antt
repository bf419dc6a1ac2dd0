pub mod Judging
pub mod Records
pub mod Links
pub mod Turns
