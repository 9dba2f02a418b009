pub mod Apart
pub mod Quotient
pub mod Read
pub mod Spelled
pub mod Tens
pub mod Steps
pub mod Worked
