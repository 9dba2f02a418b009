pub mod Replace
pub mod Demand
pub mod Worked
