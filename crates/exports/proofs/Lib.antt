pub mod Plain
pub mod Runs
pub mod LiveThinner
pub mod LapSessions
pub mod Fewest
