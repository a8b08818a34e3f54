pub mod Runs
pub mod Nodes
pub mod Low
pub mod Filled
pub mod Truths
pub mod Checks
pub mod Meaning
pub mod First
