pub mod Socket
pub mod Claims
