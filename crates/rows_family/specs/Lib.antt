pub mod Put
pub mod Windows
pub mod Each
