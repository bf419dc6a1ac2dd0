pub mod Notes
pub mod Tables
