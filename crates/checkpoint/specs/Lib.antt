pub mod Blocks
pub mod Compact
pub mod Size
pub mod Again
