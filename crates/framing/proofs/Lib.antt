pub mod Spools
pub mod Keeps
pub mod SpoolSteps
