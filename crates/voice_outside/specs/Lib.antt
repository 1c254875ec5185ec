pub mod Counters
pub mod Causes
pub mod Files
pub mod Memory
pub mod Disk
pub mod EmptyDisk
