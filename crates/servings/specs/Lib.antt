pub mod Alone
pub mod AloneTurns
pub mod Asked
pub mod Copied
pub mod Servings
pub mod Turns
