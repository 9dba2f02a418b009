pub mod Parts
pub mod Lines
pub mod Calls
pub mod Written
