pub mod KindsOfChanges
pub mod Following
pub mod SoFar
