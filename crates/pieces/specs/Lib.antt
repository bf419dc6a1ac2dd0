pub mod Read
pub mod Number
