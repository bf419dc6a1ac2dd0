pub mod Braces
pub mod Names
pub mod Pieces
pub mod Numbers
