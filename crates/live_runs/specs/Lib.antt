pub mod Run
pub mod Drawn
