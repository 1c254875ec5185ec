pub mod Wrote
pub mod Runs
