pub mod Part
pub mod Rows
