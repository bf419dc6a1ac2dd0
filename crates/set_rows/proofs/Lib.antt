pub mod Longs
pub mod Walk
