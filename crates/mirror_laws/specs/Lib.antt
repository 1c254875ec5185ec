pub mod Standing
pub mod Calls
pub mod Foundations
pub mod Laws
pub mod Promotion
