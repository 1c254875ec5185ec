pub mod Greatest
pub mod Levels
pub mod Scan
