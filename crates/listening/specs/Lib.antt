pub mod Heard
pub mod Looks
