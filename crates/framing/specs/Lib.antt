pub mod Spool
pub mod Claims
