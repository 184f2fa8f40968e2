pub mod InvariantSteps
pub mod Needs
pub mod FromTheEndSteps
pub mod Text8
pub mod Complete
