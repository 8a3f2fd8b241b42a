pub mod NamedFields
pub mod RuleSteps
pub mod RequestSteps
pub mod Requests
pub mod Claims
