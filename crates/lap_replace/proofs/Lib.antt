pub mod Most
pub mod New
pub mod Again
pub mod Finite
pub mod Before
pub mod Demand
pub mod Worked
