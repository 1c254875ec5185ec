pub mod Alike
pub mod Opened
pub mod Sized
