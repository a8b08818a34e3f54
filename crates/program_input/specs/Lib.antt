pub mod Lines
pub mod Scanning
pub mod Feeding
