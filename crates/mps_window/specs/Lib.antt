pub mod Over
pub mod Entries
pub mod Places
