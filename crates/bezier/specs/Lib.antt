pub mod Curve
pub mod Linearize
pub mod Calls
