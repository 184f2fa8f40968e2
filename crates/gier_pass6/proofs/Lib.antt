pub mod ListChanges
pub mod InvariantSteps
