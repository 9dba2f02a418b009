-- Laws has what a reader wants, over any test that neighbours pass; the others prove it. Worked computes examples.
pub mod Steps
pub mod Pairs
pub mod Held
pub mod Walk
pub mod Laws
pub mod Worked
pub mod Told
