pub mod Bytes
pub mod Command
