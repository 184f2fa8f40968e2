-- Programs, each with what is told of its run.
pub mod Arithmetic
pub mod Statements
pub mod Loops
pub mod Blocks
pub mod Procedures
pub mod ByName
pub mod Labels
pub mod Formals
pub mod Stops
