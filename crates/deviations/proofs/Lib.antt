pub mod Own
pub mod Between
pub mod Accepted
pub mod WorstStep
