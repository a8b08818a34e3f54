pub mod Nodes
pub mod Looping
pub mod Checks
pub mod Heights
pub mod Ends
pub mod Atoms
pub mod Plans
