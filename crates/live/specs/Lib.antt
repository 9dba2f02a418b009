pub mod Thinner
pub mod Calls
pub mod Replay
