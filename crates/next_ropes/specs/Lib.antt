pub mod Ready
pub mod Lowest
pub mod Copies
pub mod Addresses
