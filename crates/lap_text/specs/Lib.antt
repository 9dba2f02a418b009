pub mod Text
pub mod Left
