-- What crates above cite too: walks over indices, runs of stores, and the first failing row.
pub mod Coordinates
pub mod Every
pub mod Stores
pub mod Flat
pub mod Formed
pub mod Input
pub mod Placed
pub mod Rows
pub mod Sides
pub mod Wrote
pub mod Tolerance
pub mod Walk
pub mod Zero
