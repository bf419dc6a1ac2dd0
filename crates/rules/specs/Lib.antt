pub mod Key
pub mod Pair
pub mod Setting
pub mod Coded
pub mod Reading
pub mod Places
pub mod Pairs
