pub mod Course
pub mod Tally
pub mod Laps
