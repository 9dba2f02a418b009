pub mod Thin
pub mod Data
pub mod Simplify
pub mod Twice
pub mod Words
pub mod Flags
pub mod Track
pub mod Placed
