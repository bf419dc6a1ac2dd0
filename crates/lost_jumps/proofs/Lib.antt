pub mod Gone
pub mod Judged
pub mod Answered
