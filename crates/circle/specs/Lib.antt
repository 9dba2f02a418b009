pub mod Worst
pub mod Collinear
pub mod Three
pub mod Kasa
pub mod Bisector
pub mod Calls
