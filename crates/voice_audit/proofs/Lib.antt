pub mod Counted
pub mod Noted
pub mod Opened
pub mod Ropes
pub mod Told
