pub mod Programs
pub mod Rows
pub mod Results
