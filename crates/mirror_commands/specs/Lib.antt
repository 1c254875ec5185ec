pub mod Texts
pub mod Feeding
pub mod Promoting
