pub mod Head
pub mod Lines
pub mod RequestLine
pub mod Fields
pub mod Claims
