-- The theorems on the definitions of specs/.
pub mod Terms
pub mod Tables
pub mod Room
pub mod Proved
