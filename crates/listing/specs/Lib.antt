pub mod Rows
pub mod Placed
