-- The theorems of specs/Drawn.antt stand at the ends of Runs, Way, Coarser and Zigzag, and worked runs in Worked; the others prove them.
pub mod Near
pub mod Slots
pub mod Places
pub mod Holds
pub mod Runs
pub mod Sound
pub mod Way
pub mod Coarser
pub mod Zigzag
pub mod Worked
