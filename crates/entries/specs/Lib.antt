pub mod Parse
pub mod Entry
