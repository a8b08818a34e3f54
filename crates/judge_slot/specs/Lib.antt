pub mod Counts
pub mod Searches
pub mod Windows
pub mod Holding
pub mod Spreads
