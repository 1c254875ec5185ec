pub mod Packets
pub mod Shown
pub mod Laws
pub mod Effects
