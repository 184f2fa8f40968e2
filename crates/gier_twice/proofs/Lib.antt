pub mod ExpressionNeeds
pub mod SameScopes
pub mod StatementNeeds
pub mod ProgramsEqual
pub mod PartsEqual
