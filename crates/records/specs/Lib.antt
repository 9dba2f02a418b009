pub mod Words
pub mod Record
