pub mod Names
pub mod Files
pub mod Walk
