pub mod Striking
pub mod Wanted
