pub mod Shapes
pub mod Putting
