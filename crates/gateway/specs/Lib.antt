pub mod Body
pub mod Step
pub mod Write
pub mod Stepping
pub mod Worked
pub mod Claims
