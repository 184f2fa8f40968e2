pub mod InvariantSteps
pub mod Weights
pub mod Unnumbered
