pub mod Counted
pub mod Listed
pub mod Grows
pub mod Fewer
pub mod Spelled
pub mod Readied
pub mod Pledged
pub mod Copied
