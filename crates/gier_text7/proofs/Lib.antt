pub mod ElementsAhead
pub mod WhileAhead
pub mod StepRecords
pub mod OutboxAnswers
pub mod Expressions
pub mod Switches
