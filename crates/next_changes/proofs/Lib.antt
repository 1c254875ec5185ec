pub mod Given
pub mod Called
pub mod Copied
