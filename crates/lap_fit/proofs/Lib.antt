pub mod Cap
pub mod Lap
pub mod Arrays
pub mod Turns
pub mod Rows
pub mod Accepted
pub mod ByteLists
pub mod Starts
