pub mod Capped
pub mod Signs
pub mod Spans
