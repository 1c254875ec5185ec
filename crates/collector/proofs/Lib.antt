pub mod Released
pub mod Swept
pub mod Copies
pub mod Expired
pub mod Looked
pub mod Lost
pub mod Stretched
pub mod Tried
