pub mod Bits
pub mod Holders
pub mod Place
pub mod Sound
