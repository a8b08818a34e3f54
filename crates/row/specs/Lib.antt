pub mod Meaning
pub mod Kinds
pub mod NodeRows
pub mod Placed
pub mod Apart
