pub mod Calls
pub mod Examined
pub mod WorstStep
