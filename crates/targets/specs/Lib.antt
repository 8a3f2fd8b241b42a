pub mod Escape
pub mod Target
pub mod Claims
