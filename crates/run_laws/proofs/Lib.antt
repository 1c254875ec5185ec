pub mod Quiet
pub mod Playing
pub mod Ordering
pub mod Finished
