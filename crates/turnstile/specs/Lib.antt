pub mod Gates
pub mod Histories
pub mod Passes
pub mod Seats
pub mod Shown
pub mod Turns
