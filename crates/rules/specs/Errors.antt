-- Request N7: error figures computed by kind, and that passed figures are within them of the truth.
pub mod Sums
pub mod Figures
