-- What more than one function's proof cites.
pub mod Rows
pub mod Count
pub mod Ends
pub mod Evaluations
