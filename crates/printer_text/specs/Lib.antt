pub mod Printed
pub mod Refused
pub mod Shown
pub mod Outcome
