pub mod Meaning
pub mod Checks
pub mod Parts
pub mod Limits
