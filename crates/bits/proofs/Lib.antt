pub mod Bits
pub mod Numbers
pub mod Puts
pub mod Fields
pub mod Windows
pub mod Signed
pub mod Examples
