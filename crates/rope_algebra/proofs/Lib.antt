pub mod Parts
pub mod Joins
pub mod Blocks
pub mod Stretched
pub mod Begun
pub mod Firsts
