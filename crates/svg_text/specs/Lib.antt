pub mod Thousandths
pub mod Path
pub mod Drawing
pub mod Spelling
pub mod Worked
