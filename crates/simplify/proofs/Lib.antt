-- Thinning has the laws that a reader wants, each stated alone; the others prove them and the functions.
pub mod Kept
pub mod Near
pub mod Again
pub mod Twice
pub mod Flags
pub mod Close
pub mod Accepted
pub mod Thinning
