-- Each call's outcome is exact: refused with the first refusal that applies, in the order of request N4, and else answered with what the papers say.
pub mod Tests
pub mod Unrefused
pub mod Tables
pub mod Read
pub mod Evaluate
pub mod Rows
pub mod Judge
