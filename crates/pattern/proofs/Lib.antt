pub mod Examples
pub mod Elements
pub mod Stars
pub mod Plain
