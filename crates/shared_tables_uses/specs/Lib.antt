pub mod Lane
pub mod Turns
