pub mod Anchors
pub mod Index
pub mod Kept
pub mod Laws
