pub mod Making
pub mod Mentions
