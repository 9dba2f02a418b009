pub mod Sessions
pub mod Held
pub mod Shape
pub mod Finite
pub mod Lent
pub mod Demand
