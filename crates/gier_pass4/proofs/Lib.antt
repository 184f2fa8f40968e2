pub mod Weights
pub mod ListReplacement
pub mod OpenedLists
pub mod InvariantSteps
pub mod GivenKinds
