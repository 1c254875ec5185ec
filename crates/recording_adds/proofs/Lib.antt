pub mod Numbers
pub mod Listed
pub mod Kept
pub mod Grown
pub mod Whole
pub mod Between
