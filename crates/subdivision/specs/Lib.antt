pub mod Flatten
pub mod Calls
