pub mod Way
pub mod Layers
