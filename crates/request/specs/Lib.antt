pub mod Named
pub mod Request
pub mod Rules
pub mod RequestRead
pub mod Claims
