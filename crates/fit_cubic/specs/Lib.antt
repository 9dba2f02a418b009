pub mod FitCubic
pub mod Calls
