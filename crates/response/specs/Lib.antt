pub mod Head
pub mod Seen
pub mod Status
pub mod Location
pub mod Table
pub mod Response
pub mod Claims
