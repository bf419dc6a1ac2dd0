pub mod Values
pub mod Pairs
pub mod Lines
pub mod Left
pub mod Texts
pub mod Examples
