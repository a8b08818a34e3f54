pub mod Page
pub mod Exact
pub mod Outcomes
