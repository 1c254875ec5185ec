pub mod Bytes
pub mod Replay
pub mod Over
pub mod Laws
pub mod Memory
pub mod Fuse
pub mod Counted
pub mod Image
