pub mod Links
pub mod SettingSteps
pub mod CheckSteps
pub mod Proper
pub mod Sizes
pub mod Worked
pub mod Claims
