pub mod Waiting
pub mod Chain
