pub mod Bits
pub mod Ahead
pub mod Words
pub mod Rounds
pub mod Trailing
pub mod Windows
