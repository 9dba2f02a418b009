pub mod Straights
pub mod Calls
pub mod Laws
pub mod Lent
pub mod Search
