-- The theorems on the definitions of specs/.
pub mod Shown
pub mod Compared
pub mod Proved
pub mod Exact
pub mod Back
pub mod Example
