mod Uses
mod Dues
mod Made
mod Smaller
mod Calls
pub mod Rebuilt
