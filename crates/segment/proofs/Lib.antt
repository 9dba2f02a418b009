-- Laws of floats that the saved division rests on, and that it gives the measure.
pub mod Itself
pub mod Zeros
pub mod Division
pub mod Saved
