-- What more than one function's proof cites, and what a listing says of a fit.
pub mod Counts
pub mod Laps
pub mod Rows
pub mod Demand
pub mod Worked
