pub mod Looking
pub mod Standing
pub mod Walking
pub mod Placing
