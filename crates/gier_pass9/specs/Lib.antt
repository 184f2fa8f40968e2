pub mod Words
pub mod Object
pub mod PassOutput
pub mod ObjectOfText
pub mod ObjectExamples
pub mod Objects
