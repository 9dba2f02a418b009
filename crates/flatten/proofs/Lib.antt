pub mod Parts
pub mod Lines
pub mod Passes
pub mod Raising
pub mod Whole
