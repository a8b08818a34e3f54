pub mod Walk
pub mod Windows
pub mod Column
pub mod Parts
pub mod Plans
