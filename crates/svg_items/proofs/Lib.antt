pub mod Signed
pub mod Digits
pub mod Drawing
