pub mod Alone
pub mod Bytes
pub mod Names
pub mod Servings
pub mod SoFar
