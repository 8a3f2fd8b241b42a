pub mod Block
pub mod Lookup
pub mod Setting
pub mod Names
pub mod Sizes
pub mod Claims
