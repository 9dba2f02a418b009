-- The laws behind absolute value and ceiling.
pub mod Absolute
pub mod Ceiling
pub mod Large
pub mod Least
