pub mod Settings
pub mod Lent
pub mod Places
pub mod Check
pub mod Claims
