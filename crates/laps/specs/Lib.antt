pub mod File
pub mod Rows
