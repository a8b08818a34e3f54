-- Demand 3 on the definitions: rows that pin every slack have one solution, the truth.
pub mod Looping
