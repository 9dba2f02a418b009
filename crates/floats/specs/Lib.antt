pub mod Ops
pub mod Limits
pub mod Float
pub mod Root
