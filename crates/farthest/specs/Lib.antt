pub mod Measure
pub mod Farthest
pub mod Ends
pub mod Candidates
pub mod Words
pub mod Search
