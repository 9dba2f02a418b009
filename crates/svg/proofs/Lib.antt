pub mod Counting
pub mod Checking
pub mod Lapping
pub mod Coursing
