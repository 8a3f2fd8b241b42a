pub mod Iterated
pub mod Escapes
pub mod Paths
pub mod Targets
pub mod TargetsAccepted
pub mod Numbers
pub mod Worked
pub mod Claims
