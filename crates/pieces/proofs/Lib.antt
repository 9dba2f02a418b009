pub mod Recursion
pub mod Fitted
pub mod Laws
pub mod Writing
pub mod Chosen
