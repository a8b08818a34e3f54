pub mod Worked
pub mod Window
pub mod Count
pub mod Known
