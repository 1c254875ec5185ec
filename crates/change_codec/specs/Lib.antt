pub mod Widths
pub mod Refused
pub mod Said
pub mod Laws
