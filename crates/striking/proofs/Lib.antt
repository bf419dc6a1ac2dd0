pub mod Lines
pub mod Judged
pub mod Rules
pub mod Wanted
pub mod Examples
