pub mod Line
pub mod Calls
pub mod Own
pub mod WorstStep
