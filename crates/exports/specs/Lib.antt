pub mod Plain
pub mod LiveState
pub mod SessionState
pub mod Version
