pub mod Spots
pub mod Texts
pub mod Coefficients
pub mod Slots
pub mod Laws
pub mod Absent
