pub mod Roles
pub mod Spots
