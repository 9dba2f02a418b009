pub mod Input
pub mod Printed
pub mod Program
