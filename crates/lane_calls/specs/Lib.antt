pub mod Lanes
pub mod Answers
pub mod Laws
