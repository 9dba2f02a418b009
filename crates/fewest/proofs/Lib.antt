pub mod Cut
pub mod Stray
pub mod Trace
pub mod Whole
pub mod Straights
pub mod Search
