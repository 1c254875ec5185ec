pub mod Given
pub mod Found
pub mod Comes
pub mod Grown
