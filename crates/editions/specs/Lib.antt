pub mod Edition
pub mod Claims
