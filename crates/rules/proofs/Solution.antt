-- Demand 3 on the definitions: rows that pin every slack have one solution, the truth.
pub mod Integers
pub mod Families
pub mod Ranked
pub mod Looping
pub mod Truths
pub mod Bytes
