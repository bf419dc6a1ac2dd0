pub mod Order
pub mod Winners
pub mod Files
pub mod LaidOut
pub mod Positions
pub mod Wanted
pub mod Examples
