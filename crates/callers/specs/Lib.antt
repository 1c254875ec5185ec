pub mod Lines
pub mod Passed
pub mod Seats
pub mod Visits
