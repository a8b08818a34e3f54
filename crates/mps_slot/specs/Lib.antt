pub mod Each
pub mod Spots
