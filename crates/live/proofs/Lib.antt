pub mod Counts
pub mod Pushing
pub mod Answers
pub mod Replaying
pub mod Tuned
