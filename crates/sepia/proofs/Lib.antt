pub mod FirstSlot
pub mod Bounds
