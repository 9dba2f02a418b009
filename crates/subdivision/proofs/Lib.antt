-- What more than one function's proof cites.
pub mod Rows
pub mod Halving
