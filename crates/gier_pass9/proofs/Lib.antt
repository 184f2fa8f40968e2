pub mod Pages
pub mod WordsMade
pub mod Objects
pub mod PassSteps
