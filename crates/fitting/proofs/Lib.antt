pub mod Accepted
pub mod Examined
pub mod WorstStep
