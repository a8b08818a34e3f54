pub mod Turning
pub mod Exchanged
pub mod Packing
pub mod Columns
