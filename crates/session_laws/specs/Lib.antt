pub mod Sessions
pub mod Demand
