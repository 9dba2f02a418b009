-- What more than one function's proof cites.
pub mod Chords
