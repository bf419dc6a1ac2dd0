pub mod Ends
pub mod Stages
pub mod Walk
pub mod Copy
pub mod Held
