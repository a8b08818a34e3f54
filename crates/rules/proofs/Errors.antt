-- Request N7: error figures computed by kind, and that passed figures are within them of the truth.
pub mod Sums
pub mod Counting
pub mod Parts
pub mod Figures
pub mod Naturals
pub mod Families
pub mod Nearness
pub mod Passed
