pub mod Draws
pub mod Lines
pub mod Samples
pub mod Scripts
