pub mod Effects
pub mod Fronts
pub mod Laws
