pub mod Segment
pub mod Axes
pub mod Saved
