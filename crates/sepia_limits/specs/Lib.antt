pub mod Limits
pub mod Kinds
pub mod FirstNode
