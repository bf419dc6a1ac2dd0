pub mod Values
pub mod Sound
pub mod Examples
pub mod Pairs
pub mod Escapes
pub mod Shorter
pub mod Lines
pub mod Coded
