pub mod Judged
pub mod Records
pub mod Claims
