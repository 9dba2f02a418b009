pub mod Input
pub mod Sum
