pub mod Hills
pub mod Worked
