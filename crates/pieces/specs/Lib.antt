pub mod Pieces
pub mod Commands
pub mod Written
pub mod Tested
pub mod Laws
