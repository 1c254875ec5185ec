pub mod Numbered
pub mod Stripped
