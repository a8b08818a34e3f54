pub mod Sums
pub mod Magnitudes
pub mod Stored
