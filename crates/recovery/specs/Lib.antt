pub mod Shown
pub mod Placing
pub mod Building
pub mod Replayed
pub mod Gathered
