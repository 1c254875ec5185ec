pub mod Places
pub mod Others
pub mod Served
pub mod TakenIn
pub mod Whole
