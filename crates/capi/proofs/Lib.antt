pub mod Answers
pub mod Writes
pub mod Spools
pub mod Forwards
pub mod Claims
