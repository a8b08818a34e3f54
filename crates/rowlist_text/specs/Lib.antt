pub mod Sizes
pub mod RowText
pub mod Records
