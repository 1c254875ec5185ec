pub mod Adds
pub mod Feeds
pub mod Keeping
pub mod Moving
