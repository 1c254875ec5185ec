pub mod WindowRows
pub mod PiecesOfRopes
pub mod Runs
pub mod Windows
pub mod Distinct
pub mod Counts
