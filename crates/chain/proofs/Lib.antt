-- What more than one function's proof cites: counts, a course's parts, a Bezier's steps, one command, and a chain that is flushed.
pub mod Count
pub mod Parts
pub mod Steps
pub mod Stepping
pub mod Chains
