pub mod Printed
pub mod Sum
