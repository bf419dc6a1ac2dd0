pub mod Action
pub mod Absent
