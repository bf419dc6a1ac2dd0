pub mod Stays
pub mod Drops
pub mod Rules
pub mod Lines
pub mod Texts
pub mod Examples
