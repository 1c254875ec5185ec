pub mod Followed
pub mod Bodies
pub mod Taken
pub mod Growing
