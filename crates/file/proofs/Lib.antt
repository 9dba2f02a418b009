pub mod Blank
pub mod Floats
pub mod Stores
pub mod Walks
pub mod RoundTrip
pub mod Lent
