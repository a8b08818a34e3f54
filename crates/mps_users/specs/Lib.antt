pub mod Users
pub mod Picked
pub mod Around
pub mod Found
pub mod Finding
