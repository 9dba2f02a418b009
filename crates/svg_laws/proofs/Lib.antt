pub mod Demand
pub mod Grammar
pub mod Worked
