pub mod LaidOut
pub mod Reading
pub mod Running
pub mod Plans
pub mod Examples
