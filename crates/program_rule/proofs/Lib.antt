-- The theorems on the definitions of specs/.
pub mod Cut
pub mod Refusing
