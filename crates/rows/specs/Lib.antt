pub mod Entry
pub mod Row
