pub mod Phrase
pub mod Records
pub mod Steps
pub mod Parts
