pub mod Examples
pub mod Pieces
