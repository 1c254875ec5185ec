pub mod Frames
pub mod Windows
pub mod Lanes
pub mod Shown
pub mod Fed
pub mod Held
pub mod Moved
