pub mod Sent
pub mod Told
pub mod Coming
pub mod Abreast
pub mod Laws
