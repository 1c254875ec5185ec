pub mod Shown
pub mod Taking
pub mod Ready
pub mod Serving
pub mod Promoting
