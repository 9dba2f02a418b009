pub mod Parts
pub mod Joins
pub mod Chains
