pub mod EntryWords
pub mod SendLoop
pub mod InvariantSteps
