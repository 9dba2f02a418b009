pub mod Replaced
pub mod Body
pub mod Turns
pub mod Next
