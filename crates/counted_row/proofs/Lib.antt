pub mod Flat
pub mod Points
