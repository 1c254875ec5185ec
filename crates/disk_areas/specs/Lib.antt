pub mod Numbers
pub mod Areas
