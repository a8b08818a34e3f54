-- The theorems on the definitions of specs/.
pub mod Refusing
pub mod Answering
pub mod Passing
pub mod Carrying
pub mod Summing
pub mod Paging
pub mod TableLeft
pub mod Planning
pub mod Printing
pub mod Headlines
