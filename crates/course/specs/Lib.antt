pub mod Course
pub mod Walks
pub mod Demand
pub mod Finite
