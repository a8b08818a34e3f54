pub mod Meaning
pub mod Sums
pub mod Laws
pub mod Windows
