pub mod Demand
pub mod Worked
