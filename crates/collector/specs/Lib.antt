pub mod Due
pub mod Freed
