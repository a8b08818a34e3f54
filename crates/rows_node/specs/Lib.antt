pub mod Families
pub mod Blocks
