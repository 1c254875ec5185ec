pub mod Audit
pub mod Opening
pub mod Sharing
pub mod Telling
