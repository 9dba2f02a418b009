-- What more than one module, or a crate above, cites: which floats are no NaN, the order of floats, and bounds by powers of two.
pub mod Patterns
pub mod Order
pub mod Bounds
pub mod Unsigned
pub mod Limits
