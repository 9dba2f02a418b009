-- The search finds the first farthest point, whatever it passes over; the others prove the functions.
pub mod First
pub mod Moves
pub mod Search
pub mod Scan
