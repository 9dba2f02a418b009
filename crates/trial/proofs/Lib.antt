-- What the proofs of functions cite, and the laws of the trials.
pub mod Squares
pub mod Steps
pub mod Whole
pub mod Going
pub mod Tried
