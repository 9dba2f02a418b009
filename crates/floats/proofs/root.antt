-- The laws behind the square root.
pub mod Floor
pub mod Rooted
pub mod Read
pub mod Total
pub mod Plain
pub mod Nearest
pub mod Monotone
pub mod Compared
pub mod Reaches
pub mod Operation
pub mod Outside
