pub mod Layout
pub mod Tested
pub mod Spots
pub mod Blocks
pub mod InPlace
pub mod Laws
