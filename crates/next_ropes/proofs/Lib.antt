pub mod Performed
pub mod Dropped
pub mod TakenLowest
pub mod Spelled
pub mod Readied
pub mod HandedOut
