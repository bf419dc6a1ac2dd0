pub mod Bits
pub mod Fields
pub mod Signed
pub mod Cursor
