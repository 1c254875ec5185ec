pub mod Counted
pub mod Writes
pub mod Stages
pub mod Whole
