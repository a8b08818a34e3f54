pub mod Bounds
pub mod Emitted
pub mod Turns
pub mod Fields
pub mod DigitWords
pub mod Names
pub mod Units
