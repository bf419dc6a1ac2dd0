pub mod Numbers
pub mod Pairs
pub mod Bytes
pub mod Rules
