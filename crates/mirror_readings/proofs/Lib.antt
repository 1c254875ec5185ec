pub mod Apart
pub mod Replays
pub mod Openings
