pub mod Blocks
pub mod Value
pub mod Mounts
pub mod Search
pub mod Claims
