pub mod Fed
pub mod Turned
